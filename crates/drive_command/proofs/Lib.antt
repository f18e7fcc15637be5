mod DriveLaws
