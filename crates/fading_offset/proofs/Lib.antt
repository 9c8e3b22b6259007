mod FadingLogs
